pub mod HowSlices
