pub mod CountedParts
