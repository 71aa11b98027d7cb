pub mod Printed
pub mod CardFaults
pub mod RecordFaults
pub mod RunFaults
pub mod OtherFaults
pub mod Words
pub mod Lines
pub mod Dumps
