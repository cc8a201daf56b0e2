pub mod CatLaws
