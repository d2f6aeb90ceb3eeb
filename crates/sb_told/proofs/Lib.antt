pub mod KeptItems
pub mod Printing
pub mod PlanNotes
pub mod DiaryReading
