pub mod Listed
pub mod Pending
pub mod Hits
pub mod LogRead
pub mod Inventories
pub mod CanonicalLogs
