pub mod Calls
pub mod Examples
pub mod SoundStore
pub mod Store
pub mod Words
