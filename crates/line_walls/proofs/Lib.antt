mod LoopLaws
mod JobLaws
