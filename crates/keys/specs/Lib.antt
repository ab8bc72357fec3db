pub mod HowKeys
