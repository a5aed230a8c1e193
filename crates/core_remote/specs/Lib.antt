pub mod RemoteActs
