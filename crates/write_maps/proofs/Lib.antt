mod KindLaws
mod PartLaws
