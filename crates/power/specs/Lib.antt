pub mod Loss
