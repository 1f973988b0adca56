pub mod WireTold
