pub mod GivenBack
pub mod Remainders
