pub mod BringSteps
pub mod Checks
pub mod MakeSteps
pub mod Named
pub mod ReadSteps
pub mod SwapSteps
pub mod WriteSteps
