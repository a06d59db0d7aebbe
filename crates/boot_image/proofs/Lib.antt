pub mod PlainPaths
pub mod Items
pub mod Under
pub mod Remaining
pub mod PathsOf
pub mod Growing
pub mod RoundTrip
