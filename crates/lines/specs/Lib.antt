pub mod HowLines
