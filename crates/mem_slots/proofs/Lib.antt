pub mod SlotsOf
