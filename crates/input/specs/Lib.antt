pub mod SyntaxKind
pub mod Lent
pub mod Input
