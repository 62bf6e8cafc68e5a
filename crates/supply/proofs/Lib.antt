pub mod FltBits
pub mod Shut
pub mod Gains
pub mod StatBits
pub mod Rings
pub mod ErrorCodes
