pub mod Building
pub mod RecipeA
pub mod Rows
