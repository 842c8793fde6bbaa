pub mod FloatLaws
pub mod BoxLaws
pub mod RangeLaws
