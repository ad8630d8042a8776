mod SameMail
mod Sending
mod Going
pub mod TickSteps
