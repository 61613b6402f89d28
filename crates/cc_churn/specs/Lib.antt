pub mod Churn
pub mod Refusals
