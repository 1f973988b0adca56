pub mod ConversionTold
