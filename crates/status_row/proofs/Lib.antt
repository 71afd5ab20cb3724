pub mod DescriptorsLaws
pub mod ReaderLaws
pub mod WriterLaws
