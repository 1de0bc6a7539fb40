-- The law of the rooms, and that of the text that is written.
pub mod Rooms
pub mod Written
