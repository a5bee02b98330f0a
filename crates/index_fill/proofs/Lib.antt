pub mod RowsAhead
pub mod HeadLaws
pub mod ScanLaws
