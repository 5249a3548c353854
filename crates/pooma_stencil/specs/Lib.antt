pub mod Bodies
pub mod Stencils
pub mod Expansions
