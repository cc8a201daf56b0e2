pub mod CountLaws
pub mod RunLaws
pub mod StatusLaws
