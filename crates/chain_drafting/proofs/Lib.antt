pub mod Within
pub mod Rowed
pub mod LinkFiles
pub mod Pushed
pub mod RoleRows
pub mod DelegationParts
pub mod Finds
