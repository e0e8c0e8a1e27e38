pub mod Filed
pub mod WritingParts
pub mod RoundTrip
