pub mod Stream
pub mod Turn
