pub mod WrittenPlaces
pub mod PassedPlaces
