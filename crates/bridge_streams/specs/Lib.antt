pub mod Draining
pub mod Taking
pub mod Queues
pub mod Spoken
