pub mod Automata
pub mod Outlook
pub mod Ahead
