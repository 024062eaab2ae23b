pub mod DefiniteOrders
pub mod NumberRows
