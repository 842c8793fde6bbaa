pub mod PlantLaws
pub mod RoundLaws
pub mod DwarfedLaws
