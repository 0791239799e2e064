mod Certified
