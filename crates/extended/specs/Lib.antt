pub mod Synchronization
pub mod UniverseDiscovery
pub mod Extended
pub mod Bytes
