pub mod Outbox
pub mod Rows
pub mod OutboxLaws
