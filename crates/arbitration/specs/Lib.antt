-- The definitions that a reader must believe: request 2.9. The line and who survives, the call with its refusals and the device after it; then
-- the statements.
pub mod Line
pub mod Arbitration
pub mod Survivor
pub mod Noninterference
pub mod Inner
