pub mod RoomLaws
pub mod PayloadLaws
pub mod BodyLaws
