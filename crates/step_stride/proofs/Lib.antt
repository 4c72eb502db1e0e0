pub mod CodeLaws
pub mod PairLaws
pub mod StrideLaws
