pub mod AnswersMakeStates
pub mod BatchOneByOne
pub mod ChangesMake
pub mod LastLines
pub mod OneMoreBlob
pub mod FirstLines
