pub mod StatAsMode
