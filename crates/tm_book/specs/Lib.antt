pub mod AnyMachines
pub mod Made
pub mod Books
pub mod StoredBooks
