pub mod InertiaLemmas
pub mod TickLemmas
