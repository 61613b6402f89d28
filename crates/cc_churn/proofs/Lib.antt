pub mod Fits
mod Joins
