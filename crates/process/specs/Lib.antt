pub mod Stops
pub mod Asked
pub mod Replied
pub mod Apply
pub mod Processes
pub mod Lineage
pub mod Laws
