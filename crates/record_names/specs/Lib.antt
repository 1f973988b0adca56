pub mod told
