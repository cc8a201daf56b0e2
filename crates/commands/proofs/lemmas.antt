pub mod ListLaws
pub mod PasteNameLaws
pub mod UniqFileLaws
