pub mod HowAsked
