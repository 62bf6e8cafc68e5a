pub mod Print
pub mod RoundTrip
