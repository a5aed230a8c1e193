pub mod Plans
pub mod Program
pub mod Reading
