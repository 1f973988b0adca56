pub mod CountLaws
pub mod ListLaws
pub mod RoomLaws
pub mod Exact
