pub mod SectionLoads
pub mod Steps
