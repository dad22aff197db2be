pub mod Assembled
