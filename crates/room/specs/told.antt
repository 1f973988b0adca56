pub mod RoomTold
