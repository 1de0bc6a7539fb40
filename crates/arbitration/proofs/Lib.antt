-- Laws and theorems of arbitration: the bits of bytes and the line, messages by their bytes, a message to the device, demand 1, who survives and what
-- the line carries, demand 3 with its witness, worked cases.
pub mod Bits
pub mod Line
pub mod ByBytes
pub mod Delivery
pub mod Returned
pub mod Survivor
pub mod Events
pub mod Noninterference
pub mod Worked
pub mod Witness
