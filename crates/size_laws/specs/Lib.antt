pub mod SmallParts
